pub mod PairFacts
pub mod PairWalks
pub mod DistantPairs
pub mod PartedPairs
pub mod PlanChanges
pub mod PlanLaws
mod BookPlaces
mod Exits
mod WaysBack
