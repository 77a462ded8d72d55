pub mod Update
pub mod Numbers
pub mod Runs
pub mod Laws
pub mod Theorems
