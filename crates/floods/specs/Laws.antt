pub mod Back
pub mod Floods
