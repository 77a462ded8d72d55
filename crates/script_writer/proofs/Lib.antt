pub mod Fits
pub mod Growing
