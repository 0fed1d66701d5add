pub mod Sides
pub mod SideLinks
