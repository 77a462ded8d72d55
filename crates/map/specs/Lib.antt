pub mod Tables
pub mod Told
pub mod Held
pub mod StandOf
pub mod Laws
