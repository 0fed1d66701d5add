pub mod Following
pub mod Ordering
