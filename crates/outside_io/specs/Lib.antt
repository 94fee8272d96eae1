pub mod Calls
pub mod Causes
pub mod MemorySink
pub mod MemorySource
pub mod Real
pub mod SureSink
pub mod SureSource
pub mod Taken
