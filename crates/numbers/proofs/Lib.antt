pub mod DocumentLaws
