pub mod Covers
pub mod Rules
