pub mod FailedCalls
pub mod FailingCalls
pub mod MemoryCalls
pub mod NamedFiles
pub mod Puts
pub mod Readers
