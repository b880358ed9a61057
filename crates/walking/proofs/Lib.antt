pub mod Walks
mod Steps
