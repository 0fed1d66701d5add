pub mod Hanging
pub mod Planning
