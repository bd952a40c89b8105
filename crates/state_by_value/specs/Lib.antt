pub mod Places
pub mod States
pub mod Stepped
