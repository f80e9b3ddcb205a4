-- What the theorems say of a sweep.
pub mod Facts
pub mod Unaligned
