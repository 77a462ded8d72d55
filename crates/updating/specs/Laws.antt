pub mod Longer
pub mod Known
pub mod Counts
pub mod Steps
pub mod Writing
pub mod Answers
