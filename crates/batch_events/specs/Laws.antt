pub mod Events
pub mod Going
