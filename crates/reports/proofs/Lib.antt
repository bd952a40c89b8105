pub mod ReportLaws
pub mod SaysLaws
