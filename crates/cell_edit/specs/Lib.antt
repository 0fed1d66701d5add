pub mod Stars
pub mod Inserting
pub mod Removing
pub mod Writing
pub mod Circles
pub mod Bridging
pub mod Planning
