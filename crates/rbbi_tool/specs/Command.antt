-- What each command answers, from what was read.
pub mod Check
pub mod Compile
pub mod Upgrade
pub mod Same
pub mod Breaks
pub mod Run
pub mod Conform
pub mod Tally
pub mod Demo
