pub mod Tells
pub mod Reports
