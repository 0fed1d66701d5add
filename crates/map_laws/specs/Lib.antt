pub mod Both
pub mod Back
pub mod Insertions
pub mod Totals
