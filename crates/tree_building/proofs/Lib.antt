-- Laws of writing a tree, and of what is answered.
pub mod Putting
pub mod Trees
pub mod Entry
