-- Building a tree for a table of any bytes.

-- what a reader has to believe
pub mod Building
-- what the proofs and the theorems use
pub mod Room
pub mod Writing
pub mod Growing
