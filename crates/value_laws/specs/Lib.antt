pub mod Rerouted
