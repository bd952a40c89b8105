pub mod Reports
pub mod Plain
