pub mod KeptLaws
pub mod DropLaws
pub mod FillLaws
pub mod ShowLaws
pub mod PlainLaws
pub mod LivesLaws
