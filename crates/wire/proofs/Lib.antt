pub mod FrameLaws
pub mod SplittingLaws
