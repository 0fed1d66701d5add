pub mod Meanings
pub mod Reading
pub mod Views
pub mod MapViews
pub mod OffLines
