pub mod CategoryLists
pub mod Refusals
pub mod inner
