-- Decoding as document 01 has it, before there were computed operands.
pub mod Base
