pub mod Walk
pub mod Numbers
pub mod Laws
