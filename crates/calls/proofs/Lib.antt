pub mod Entering
pub mod Places
pub mod Stores
pub mod Walking
