pub mod ReadBack
pub mod SideDarts
