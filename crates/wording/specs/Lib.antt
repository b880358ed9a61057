pub mod Texts
pub mod Numerals
pub mod Quotes
pub mod Words
pub mod Laws
