-- What only this crate's own code and proofs cite. Nothing that is promised rests on it.
pub mod Joins
pub mod Letters
pub mod Pairs
pub mod Grids
pub mod Columns
pub mod Numberings
pub mod Ranges
pub mod Walks
pub mod Slashes
pub mod Made
