pub mod ReadWords
pub mod NumberLines
pub mod LogTexts
pub mod FrontCuts
pub mod PutLines
