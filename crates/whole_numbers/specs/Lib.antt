-- Whole numbers inside signed 64 bits, and the operators on them (request 1, "Branch targets").
pub mod Range
pub mod Operators
