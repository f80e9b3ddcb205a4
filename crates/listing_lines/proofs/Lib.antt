-- Laws of a line.
pub mod Showing
pub mod Unaligned
mod Fitting
mod Made
