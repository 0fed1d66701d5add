pub mod DualAlpha
pub mod DualBeta
pub mod DualSquare
pub mod DualCells
pub mod DualLaws
