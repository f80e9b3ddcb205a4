-- Laws of acceptance.
pub mod Facts
