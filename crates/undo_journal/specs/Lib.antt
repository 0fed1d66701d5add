pub use Rattle.machine_defs.specs.Difference
pub mod Entries
