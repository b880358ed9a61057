pub mod Statements
pub mod Reading
pub mod Views
pub mod Places
