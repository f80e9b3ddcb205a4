-- Numbers as text, and what a writer does to a lent part.
pub mod Numerals
pub mod Writing
