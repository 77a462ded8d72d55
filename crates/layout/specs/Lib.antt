pub mod Widths
pub mod Rows
pub mod State
pub mod Points
pub mod Facts
