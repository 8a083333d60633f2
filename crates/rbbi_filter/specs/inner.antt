-- What only this crate's own code and proofs cite. Nothing that is promised rests on it.
pub mod Windows
pub mod Turning
pub mod PairLines
pub mod Members
pub mod Trails
pub mod Stretches
