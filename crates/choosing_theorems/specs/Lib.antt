-- The words that the theorems use.
pub mod Continuing
pub mod Pair
pub mod Taken
