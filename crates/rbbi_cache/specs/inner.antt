-- What only this crate's own code and proofs cite. Nothing that is promised rests on it.
pub mod Kept
pub mod Pushed
pub mod Parts
pub mod Scans
pub mod Back
pub mod Shown
pub mod Lists
pub mod Ready
pub mod Quiet
pub mod Boxing
