-- The tests by which positions are marked, of trees, parts and rules, and the rows in which they are kept.
pub mod Trees
pub mod Readers
pub mod RuleTests
pub mod PositionKinds
pub mod Rounds
pub mod Rows
