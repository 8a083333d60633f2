pub mod Blanks
pub mod Effects
