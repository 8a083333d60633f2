pub mod Classes
pub mod ClassWords
pub mod Steps
pub mod Divisions
pub mod RangesWhere
pub mod CharacterSets
pub mod inner
