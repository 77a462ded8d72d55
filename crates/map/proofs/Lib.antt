pub mod Steps
pub mod Entries
pub mod Lookups
pub mod Passing
pub mod Moving
pub mod Playing
pub mod Tallying
