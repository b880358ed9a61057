pub mod Answers
pub mod Held
pub mod Stances
pub mod Views
