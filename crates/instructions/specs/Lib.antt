-- The instruction at a place of the code, at an address.
pub mod Settling
pub mod Instructions
