pub mod Tales
pub mod Laws
