pub mod Book
pub mod Ledger
pub mod Traced
pub mod Kept
pub mod Follower
pub mod Desk
