pub mod Points
pub mod Ways
pub mod Sure
pub mod Words
