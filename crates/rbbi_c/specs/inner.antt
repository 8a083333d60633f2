-- What only this crate's own code and proofs cite. Nothing that is promised rests on it.
pub mod Bounds
pub mod FilterDesks
pub mod Lending
pub mod FilterLending
pub mod Removing
pub mod Stretches
pub mod Tallied
