pub mod BirthChanges
