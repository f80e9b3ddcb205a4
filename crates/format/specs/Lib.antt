-- What a byte string means as a description (document 01, "The description").

-- what a reader has to believe
pub mod Numbers
pub mod Bytes
pub mod Record
pub mod Expression
pub mod Layout
pub mod Description
pub mod Rules
pub mod Check
pub mod Tables
-- what the proofs and the theorems use
pub mod Example
