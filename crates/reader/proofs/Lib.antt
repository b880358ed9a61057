pub mod Held
pub mod Names
pub mod Drafts
pub mod Obeys
pub mod Pictures
pub mod Steps
