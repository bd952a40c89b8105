pub mod Lists
pub mod Search
pub mod Circle
pub mod Digits
pub mod Bits
pub mod Bytes
pub mod Options
