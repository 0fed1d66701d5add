pub mod Taking
pub mod Numerals
