pub mod Stream
pub mod Hosts
pub mod Lent
pub mod Lives
pub mod Plain
