pub mod DeviceLaws
