pub mod Lives
pub mod Handed
pub mod Cached
