pub mod Names
pub mod Bodies
pub mod Answers
