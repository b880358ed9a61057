pub mod Letters
pub mod Landings
