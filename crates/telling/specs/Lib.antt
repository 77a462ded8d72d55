pub mod Given
pub mod Words
pub mod Reports
