pub mod StateLaws
pub mod AttachLaws
pub mod MakingLaws
pub mod ToldLaws
pub mod LentLaws
