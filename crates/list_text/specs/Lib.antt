pub mod Letters
pub mod Lines
pub mod Meanings
pub mod Views
pub mod Judging
pub mod Ranks
pub mod Spread
pub mod Again
