pub mod Cuts
pub mod Counted
pub mod Corners
pub mod Fitting
mod Rounds
mod CellPlaces
mod Refusing
mod RoundLists
mod PlainLines
mod Placing
mod Putting
mod Zips
mod OffFacts
mod Gathered
