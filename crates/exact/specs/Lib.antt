pub mod Units
pub mod Finite
pub mod Laws
