pub mod GateLaws
pub mod SeatLaws
pub mod StepLaws
