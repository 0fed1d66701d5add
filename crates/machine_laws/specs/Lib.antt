pub mod Needs
pub mod Tracing
