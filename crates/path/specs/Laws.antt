pub mod Away
pub mod Stepping
pub mod Walking
pub mod Waves
