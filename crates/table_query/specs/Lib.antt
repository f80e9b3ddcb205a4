-- Asking one table of any bytes.

-- what a reader has to believe
pub mod Asking
-- what the proofs and the theorems use
pub mod Facts
