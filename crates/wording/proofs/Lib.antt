pub mod Tables
pub mod Fronts
pub mod Decimal
pub mod Quoting
pub mod Sound
pub mod Readings
pub mod Lawfully
pub mod Whole
