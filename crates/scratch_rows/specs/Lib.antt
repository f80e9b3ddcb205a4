-- The scratch rows, read by their places.
pub mod Places
