pub use Rattle.valued_map.specs.Made
pub mod Views
pub mod Calls
pub mod Growing
pub mod Numbers
pub mod Noted
pub mod Held
