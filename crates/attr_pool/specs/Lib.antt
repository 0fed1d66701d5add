pub mod Columns
pub mod Pools
