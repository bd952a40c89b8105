pub mod Words
pub mod Calls
pub mod Pieces
pub mod Telling
pub mod Apart
