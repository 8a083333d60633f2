-- The index of the rows, by which they are found.
pub mod Index
