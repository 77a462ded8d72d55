pub mod Calls
pub mod Unique
pub mod Exactly
pub mod Places
pub mod Grouping
pub mod Isolation
