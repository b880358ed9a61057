pub mod Tales
pub mod Accepts
pub mod Written
