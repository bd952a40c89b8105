pub mod ScanLaws
pub mod IdLaws
