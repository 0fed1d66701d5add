pub mod Ranks
pub mod Entries
pub mod LiveDarts
pub mod Boundaries
pub mod Marks
pub mod Searches
pub mod SignLists
pub mod Told
