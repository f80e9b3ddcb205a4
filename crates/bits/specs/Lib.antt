-- Bits of numbers.
pub mod Bits
