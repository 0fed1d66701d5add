pub mod MeshFaults
pub mod MeshTexts
