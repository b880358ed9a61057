pub mod Any
pub mod Rules
