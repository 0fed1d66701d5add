pub mod Meanings
pub mod Reading
pub mod ReplyEnds
pub mod LogLines
pub mod Fronts
pub mod Numbers
