pub mod Tests
pub mod Order
pub mod Stored
pub mod Range
pub mod Neighbours
pub mod Adjacent
pub mod Touch
pub mod Extremes
