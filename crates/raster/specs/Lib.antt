pub mod Bits
pub mod Asking
pub mod Sheets
