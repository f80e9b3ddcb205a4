-- The path to a leaf.
pub mod Path
