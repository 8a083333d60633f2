-- How the code goes about runs and lines. No public clause rests on it.
pub mod Refusals
pub mod RunStarts
