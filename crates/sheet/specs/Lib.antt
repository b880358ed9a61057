pub mod Refusals
pub mod Meanings
pub mod Alike
