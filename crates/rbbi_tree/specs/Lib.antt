pub mod Trees
pub mod Values
pub mod Grammar
pub mod Brackets
pub mod Refusals
pub mod WellMade
pub mod inner
