pub mod Rules
pub mod Books
pub mod Faults
pub mod BookFacts
