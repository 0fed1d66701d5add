pub mod EntryFacts
pub mod MarkFacts
