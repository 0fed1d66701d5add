pub mod Triples
pub mod PairSteps
pub mod PairLists
