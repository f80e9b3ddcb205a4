-- The listing, and windows of it (document 01, "Description S and its answers", the program).

-- what a reader has to believe
pub mod Listing
-- what the proofs and the theorems use
pub mod Windows
pub mod Runs
