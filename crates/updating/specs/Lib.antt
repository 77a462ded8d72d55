pub mod Done
pub mod Known
pub mod Steps
pub mod Laws
