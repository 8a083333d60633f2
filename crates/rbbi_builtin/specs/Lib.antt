pub mod Properties
pub mod Filling
pub mod Compiling
