pub mod Signed
pub mod Block
