-- Document 01's worked cases.
pub mod Branches
pub mod Cases
