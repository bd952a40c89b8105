pub mod Bcd
pub mod Integers
pub mod Words
pub mod Plain
pub mod Examples
