-- The search for the first wrong leaf, and the check of any bytes.

-- what a reader has to believe
pub mod Entry
-- what the proofs and the theorems use
pub mod Search
pub mod Facts
