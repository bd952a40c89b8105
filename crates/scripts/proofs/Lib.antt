pub mod WordLaws
pub mod PieceLaws
pub mod ApartLaws
pub mod CallLaws
