pub mod FreePlaces
pub mod PairedLists
pub mod PoolSteps
pub mod ColumnFacts
