pub mod FirstPlaces
pub mod WordCuts
pub mod AsciiText
pub mod NameText
pub mod Digits
