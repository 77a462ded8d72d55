pub mod Units
pub mod Round
pub mod Tests
pub mod Whole
pub mod Floor
pub mod Bound
