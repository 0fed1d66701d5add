pub mod Places
pub mod Dimension
pub mod Leading
pub mod Stepping
pub mod Running
