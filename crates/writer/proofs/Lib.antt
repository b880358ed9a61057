pub mod Parts
pub mod Judged
