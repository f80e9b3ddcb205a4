-- The value of a field, and how its look shows it (document 01, "Field" and "Rows").

-- what a reader has to believe
pub mod Value
pub mod Look
-- what the proofs and the theorems use
pub mod Token
