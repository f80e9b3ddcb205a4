-- Laws of writers and of numerals.
pub mod Writing
pub mod Numerals
pub mod Signs
