-- One line of a listing (document 01, "Description S and its answers", the program).

-- what a reader has to believe
pub mod Line
-- what the proofs and the theorems use
pub mod Put
