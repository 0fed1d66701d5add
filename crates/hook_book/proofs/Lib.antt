mod Places
pub mod Boxes
