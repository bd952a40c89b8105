pub mod Texts
pub mod Digits
pub mod Said
pub mod Tallies
pub mod Saying
