pub mod Regrouping
pub mod Laws
