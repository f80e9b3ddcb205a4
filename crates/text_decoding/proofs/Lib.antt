-- Laws of decoding to text.
mod Answers
pub mod Facts
