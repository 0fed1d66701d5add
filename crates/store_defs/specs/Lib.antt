pub mod Stores
pub mod Labelings
pub mod Groups
