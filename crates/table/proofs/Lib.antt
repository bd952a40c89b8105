pub mod ViewLaws
pub mod FindLaws
pub mod PartyLaws
pub mod EntryLaws
pub mod StrikeLaws
pub mod ChangeLaws
pub mod ClosingLaws
