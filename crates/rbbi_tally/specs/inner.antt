-- What only this crate's own code and proofs cite. Nothing that is promised rests on it.
pub mod Kept
pub mod Segments
pub mod Pieces
pub mod Counting
pub mod Spots
pub mod Searching
pub mod Editing
pub mod Opening
pub mod Tallied
pub mod Values
