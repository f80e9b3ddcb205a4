-- Laws of bits.
pub mod Digits
pub mod Words
pub mod Single
