pub use Rattle.map_defs.specs.Rows
pub use Rattle.map_defs.specs.Edits
pub use Rattle.map_defs.specs.Polygon
pub use Rattle.dart_arena.specs.Stock
pub mod DualLinks
pub mod Turning
pub mod BornRows
