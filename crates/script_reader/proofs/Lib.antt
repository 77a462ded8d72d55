pub mod Fits
pub mod Moving
