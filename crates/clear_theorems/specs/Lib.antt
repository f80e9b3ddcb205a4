-- The words that the theorems use.
pub mod Continuing
