pub mod Numbers
pub mod Documents
