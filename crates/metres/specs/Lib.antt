pub mod Place
pub mod Answer
pub mod Numbers
pub mod Known
