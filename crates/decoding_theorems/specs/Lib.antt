-- What the theorems on decoding say.
pub mod Usable
pub mod Relation
pub mod Facts
pub mod Demand
