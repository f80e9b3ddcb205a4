-- Sweeping a code buffer (document 01, "Sweep"; document 02, 3).

-- what a reader has to believe
pub mod Sweep
-- what the proofs use
pub mod Buffer
