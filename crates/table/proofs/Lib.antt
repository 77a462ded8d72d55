pub mod Moving
pub mod Searching
pub mod KeyRows
pub mod After
pub mod Ways
