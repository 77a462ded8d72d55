pub mod Told
pub mod Exactly
pub mod Laws
