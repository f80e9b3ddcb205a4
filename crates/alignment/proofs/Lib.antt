-- Laws of alignment.
pub mod Laws
