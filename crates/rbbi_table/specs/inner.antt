-- What only this crate's own code and proofs cite. Nothing that is promised rests on it.
pub mod Rows
pub mod Fronts
pub mod Targets
pub mod Ranges
pub mod Moves
pub mod Searching
