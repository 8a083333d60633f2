pub mod WordBits
pub mod Rows
pub mod Words
pub mod RowLists
pub mod Buckets
