-- Laws of the gathered masks.
pub mod Zeros
pub mod Gathered
pub mod Noding
