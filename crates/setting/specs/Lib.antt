-- What is fixed along a walk.
pub mod Fixed
pub mod Ranges
