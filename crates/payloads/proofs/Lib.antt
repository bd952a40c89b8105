pub mod CarryingLaws
