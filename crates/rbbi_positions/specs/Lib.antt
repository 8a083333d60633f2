pub mod FollowPositions
pub mod Walks
pub mod PositionMarks
pub mod KeptMarks
pub mod inner
