pub mod Registers
pub mod Rewriting
pub mod Plain
pub mod Frames
pub mod Legal
pub mod Strict
pub mod inner
