pub mod Lines
pub mod Composed
pub mod Laws
pub mod Reports
