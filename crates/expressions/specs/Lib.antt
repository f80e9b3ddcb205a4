-- The value of an expression (request 1, "Branch targets"). When a record writes one, and what it names, is in format.

-- what a reader has to believe
pub mod Value
-- what the theorems speak of
pub mod Tree
