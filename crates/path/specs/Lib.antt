pub mod Walks
pub mod Laws
