pub mod Tables
pub mod Padding
pub mod Stored
pub mod HookFacts
