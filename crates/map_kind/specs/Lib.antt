pub mod Refusals
pub mod KindLaws
pub mod VertexWords
