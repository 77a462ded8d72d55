pub mod Ways
pub mod Fitting
pub mod Numbers
pub mod One
pub mod Back
