-- Alignment (document 02, 3).

-- what a reader has to believe
pub mod Alignment
-- what the theorems use
pub mod Next
