pub mod Kinds
pub mod Words
pub mod Places
pub mod Images
pub mod Answers
pub mod Next
pub mod Examples
