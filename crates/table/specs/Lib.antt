pub mod Rows
pub mod Moves
pub mod Laws
