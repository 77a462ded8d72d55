pub mod Rows
pub mod Fronts
pub mod Standing
pub mod Answers
pub mod Beside
