pub mod Generator
pub mod Edits
pub mod Summaries
