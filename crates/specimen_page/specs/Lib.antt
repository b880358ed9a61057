pub mod Specimens
pub mod Rows
