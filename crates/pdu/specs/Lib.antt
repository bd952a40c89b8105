pub mod Requests
pub mod Replies
pub mod Words
pub mod Spoiling
pub mod Reads
pub mod Plain
