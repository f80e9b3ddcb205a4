-- Laws of the sweep.
pub mod Places
pub mod Turns
