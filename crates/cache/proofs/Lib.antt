pub mod CacheLaws
pub mod LifeLaws
pub mod TilingLaws
