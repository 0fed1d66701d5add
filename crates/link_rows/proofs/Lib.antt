pub mod BornChanges
pub mod ReversedLinks
pub mod DualEntries
mod PolygonRows
mod Exchanges
mod TurnedDarts
mod LinkOrder
