pub mod VersionOne
