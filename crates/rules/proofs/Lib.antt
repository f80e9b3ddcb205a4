-- Laws that join the code of the rules to their definitions.
pub mod Minimum
pub mod Gathered
pub mod Shape
pub mod Pieces
pub mod FieldOperands
pub mod Ranges
