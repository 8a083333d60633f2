pub mod Errors
pub mod Lengths
pub mod Fitting
pub mod Answers
pub mod Laws
pub mod inner
