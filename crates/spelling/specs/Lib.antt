pub mod Spelling
pub mod Walking
pub mod Laws
pub mod Answers
pub mod Parts
