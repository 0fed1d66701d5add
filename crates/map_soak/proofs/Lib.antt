pub mod ObeyedFacts
pub mod TotalFacts
