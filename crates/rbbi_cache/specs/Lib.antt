pub mod Kept
pub mod Edits
pub mod Shown
pub mod inner
