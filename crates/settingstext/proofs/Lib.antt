pub mod PlaceLaws
pub mod AnswerLaws
pub mod ListingLaws
pub mod HeadLaws
pub mod WritingLaws
