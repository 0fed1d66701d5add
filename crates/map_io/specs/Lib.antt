pub mod Fetched
pub mod Put
pub mod Cause
pub mod Held
pub mod Failing
pub mod WriterSink
pub mod FileShelf
