pub mod Cache
pub mod Life
pub mod Plain
