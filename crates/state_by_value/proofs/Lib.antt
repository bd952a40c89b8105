pub mod PlaceLaws
pub mod GatherLaws
pub mod CallLaws
