pub mod MeshOne
pub mod MeshContent
