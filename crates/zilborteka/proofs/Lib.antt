pub mod OnlyOne
pub mod Lived
pub mod Handed
pub mod Places
pub mod Shown
pub mod DeviceClaims
pub mod DevicelessClaims
