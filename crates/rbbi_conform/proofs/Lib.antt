pub mod Judging
pub mod BlankWords
pub mod Marking
pub mod OneTest
pub mod OneVerdict
