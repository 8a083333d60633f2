pub mod Refusals
pub mod Builds
pub mod NeededRows
pub mod HaveCanonical
pub mod inner
