-- Laws that join the words to the bits.
pub mod Words
pub mod Bytes
