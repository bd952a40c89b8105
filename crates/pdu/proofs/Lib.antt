pub mod RequestLaws
pub mod ReplyLaws
pub mod WordLaws
pub mod SpoilingLaws
pub mod ReadLaws
pub mod MaskLaws
