-- Choosing and the clash check (document 01, "Choosing"), over a table given as a function and a count.

-- what a reader has to believe
pub mod Choosing
pub mod Clashing
pub mod Table
-- what the proofs and the theorems use
pub mod ValidPattern
pub mod Records
