-- Laws of the clash check's loops, and document 01's facts for the tables of a description.
mod Pairs
pub mod Facts
