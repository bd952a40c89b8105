pub mod StreamLaws
pub mod CuttingLaws
pub mod CallLaws
pub mod OfferLaws
pub mod FieldLaws
