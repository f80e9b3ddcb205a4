-- Laws of paths and of reaching a leaf.
pub mod Sides
pub mod Reach
pub mod Judging
