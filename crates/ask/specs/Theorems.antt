pub mod Exactly
pub mod Kept
pub mod Kinds
pub mod One
pub mod Places
