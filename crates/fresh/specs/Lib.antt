pub mod Answer
pub mod Theorems
pub mod Laws
