pub mod Cuts
pub mod Words
pub mod LineKinds
pub mod EditLines
pub mod Performed
pub mod Listed
pub mod OneCommand
pub mod OneScript
mod JoinedStatuses
