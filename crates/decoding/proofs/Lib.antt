-- Laws of decoding to rows.
pub mod Numbers
mod Answers
pub mod Facts
pub mod Counts
pub mod Signed
