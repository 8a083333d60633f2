pub mod Errors
pub mod Rules
pub mod Tables
pub mod Laws
