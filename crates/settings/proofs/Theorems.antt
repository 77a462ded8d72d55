pub mod Exactly
pub mod Keeping
pub mod Names
pub mod One
pub mod Reading
pub mod Versions
pub mod Writing
