-- The text of a decoded instruction (document 01, "Decoding", Text).

-- what a reader has to believe
pub mod Text
pub mod Lines
-- what the proofs and the theorems use
pub mod Places
pub mod Append
pub mod Prints
