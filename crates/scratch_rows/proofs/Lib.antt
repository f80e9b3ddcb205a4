-- Laws of the scratch rows.
pub mod Standing
