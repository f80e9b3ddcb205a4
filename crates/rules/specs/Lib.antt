-- What the code of this crate carries from record to record.
pub mod Marks
pub mod Judging
pub mod FieldOperands
pub mod Places
