pub mod Boundary
pub mod NewLinks
pub mod Planning
