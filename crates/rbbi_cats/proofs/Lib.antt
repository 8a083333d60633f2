pub mod Numbering
pub mod Ranging
pub mod Telling
pub mod Joining
pub mod LeafSets
pub mod Finding
pub mod Nexts
