-- Decoding one instruction of a well-formed description (document 01, "Decoding").
pub mod Refusals
pub mod State
pub mod Tree
pub mod Walk
pub mod Instruction
