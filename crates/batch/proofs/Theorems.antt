pub mod FirstOut
