-- What only this crate's own code and proofs cite. Nothing that is promised rests on it.
pub mod Cuts
pub mod LineValues
pub mod Fits
pub mod Digits
