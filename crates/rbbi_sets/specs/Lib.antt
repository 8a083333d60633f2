pub mod Rising
pub mod Covers
pub mod Partitions
pub mod Laws
pub mod inner
