pub mod DecodeEncode
pub mod Canonical
pub mod FirstBroken
