pub mod BitRows
pub mod Hashes
pub mod NumberedRows
pub mod inner
