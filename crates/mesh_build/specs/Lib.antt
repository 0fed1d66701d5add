pub mod Sides
pub mod Books
pub mod EntriesView
