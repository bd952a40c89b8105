pub mod Columns
pub mod inner
