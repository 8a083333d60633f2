pub mod Breaks
pub mod Statuses
pub mod LineNames
pub mod LineBreaks
pub mod LineTexts
pub mod LineBoundaries
pub mod inner
