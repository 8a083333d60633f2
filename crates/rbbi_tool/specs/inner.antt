-- What only this crate's own code and proofs cite. Nothing that is promised rests on it.
pub mod Stages
pub mod Filters
pub mod Judging
pub mod Comparing
pub mod Causes
pub mod Calls
pub mod Steps
pub mod Summing
pub mod Tallying
pub mod Prepared
pub mod Puts
