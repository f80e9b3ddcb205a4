-- What the walk's steps say of their answers and of the scratch rows.
pub mod Scratch
pub mod Steps
