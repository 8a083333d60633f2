pub mod Counts
pub mod Answers
pub mod Sinks
pub mod Puts
pub mod Readers
pub mod Memory
pub mod Errors
pub mod inner
