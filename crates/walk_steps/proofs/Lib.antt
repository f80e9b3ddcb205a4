-- Laws of the walk's steps.
pub mod Writing
pub mod Steps
