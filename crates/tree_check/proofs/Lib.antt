-- Laws of the loops over a tree's nodes, of what they find, and demand 3's "exactly".
mod Standing
mod Searching
mod Verdicts
pub mod Facts
