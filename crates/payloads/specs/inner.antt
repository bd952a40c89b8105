-- The words of inner promises, between the crates that make up a call: what a reader need not believe.
pub mod TagSteps
pub mod Carrying
