pub mod Crossing
pub mod Cutting
pub mod Drawing
pub mod Entries
pub mod Growing
pub mod Splitting
