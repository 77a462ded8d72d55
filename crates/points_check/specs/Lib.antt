pub mod Marks
pub mod Lines
pub mod Points
pub mod Laws
