pub mod Fields
pub mod Device
