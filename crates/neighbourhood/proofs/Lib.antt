pub mod Following
pub mod Laws
pub mod Spreading
pub mod Wave
