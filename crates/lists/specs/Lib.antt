pub mod Told
pub mod Parts
