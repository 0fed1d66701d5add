pub mod Obeyed
pub mod Summaries
pub use Rattle.machine_defs.specs.Soaking
