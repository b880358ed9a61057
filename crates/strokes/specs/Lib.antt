pub mod Strokes
pub mod Tables
