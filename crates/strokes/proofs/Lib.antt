pub mod Inking
pub mod Filling
pub mod Reaching
