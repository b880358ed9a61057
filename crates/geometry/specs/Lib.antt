pub mod Floors
pub mod Places
pub mod Lines
pub mod Cases
