-- Decoding one instruction of any bytes to rows.

-- what a reader has to believe
pub mod Decoding
-- what the proofs and the theorems use
pub mod Copying
