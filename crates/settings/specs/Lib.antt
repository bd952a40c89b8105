pub mod Lines
pub mod Grammar
pub mod Plain
pub mod Values
pub mod TagWords
pub mod Examples
