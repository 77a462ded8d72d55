pub mod Cells
pub mod Answers
pub mod Events
