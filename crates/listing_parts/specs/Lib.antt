-- The parts of a listing's line (document 01, "Description S and its answers", the program).

-- what a reader has to believe
pub mod Parts
-- what the proofs use
pub mod Put
