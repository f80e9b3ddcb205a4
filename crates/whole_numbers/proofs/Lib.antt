-- Laws of whole numbers: what is kept, and the operators bit by bit.
pub mod Kept
pub mod Words
pub mod Bits
