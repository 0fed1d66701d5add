pub mod WritingFacts
pub mod LineTexts
pub mod AppendFacts
