-- Laws of a tree's form.
pub mod Sides
pub mod Nodes
pub mod Trees
pub mod Steps
