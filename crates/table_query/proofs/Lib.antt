-- Laws of asking.
mod Answer
pub mod Facts
