-- Laws of what is fixed along a walk.
pub mod Laws
