-- Laws of field reads alone.
pub mod Reading
pub mod ByBytes
