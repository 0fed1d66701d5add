pub mod Orientation
pub mod Halves
