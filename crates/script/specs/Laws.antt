pub mod Decimal
pub mod Examples
pub mod Written
pub mod Writing
