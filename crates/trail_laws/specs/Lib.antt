pub mod Trails
pub mod Told
