pub mod Held
pub mod Records
pub mod Ids
pub mod Found
pub mod Join
pub mod Leave
