-- Theorems about a sweep.
pub mod Facts
pub mod Longer
pub mod Unaligned
