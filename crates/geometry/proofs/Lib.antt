pub mod Sizes
pub mod Quotients
