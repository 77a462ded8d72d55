pub mod Lines
pub mod Records
pub mod Laws
pub mod Theorems
