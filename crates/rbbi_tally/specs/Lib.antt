pub mod Counts
pub mod Costs
pub mod Tallies
pub mod inner
