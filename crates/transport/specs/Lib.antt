pub mod Tallies
pub mod Pieces
pub mod Wanted
pub mod Marks
pub mod Found
pub mod Gathered
pub mod Joined
