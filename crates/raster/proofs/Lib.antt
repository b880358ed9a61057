pub mod Bytes
pub mod Inking
