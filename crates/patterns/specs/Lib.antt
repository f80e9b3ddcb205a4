-- Patterns: matching, lying inside, overlapping, weight (document 01, "Choosing").

-- what a reader has to believe
pub mod Matching
pub mod Relations
-- what the proofs and the theorems use
pub mod Words
