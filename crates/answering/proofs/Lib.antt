pub mod GateLaws
pub mod EndLaws
pub mod FrameLaws
pub mod ReplyLaws
pub mod TickLaws
pub mod KeepLaws
