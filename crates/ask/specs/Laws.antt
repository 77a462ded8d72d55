pub mod Ways
pub mod Lookups
pub mod Listings
pub mod Told
