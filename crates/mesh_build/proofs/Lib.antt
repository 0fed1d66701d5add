pub mod BookFacts
pub mod Repeats
pub mod FaceSides
pub mod Partners
pub mod Beside
pub mod DartChanges
