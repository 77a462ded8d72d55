pub mod Near
pub mod Frame
pub mod Cell
pub mod Answer
pub mod Rest
pub mod Told
