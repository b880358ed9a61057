pub mod Pages
pub mod Reports
pub mod Prints
pub mod Worked
