-- What document 01 states about choosing and about tables without a clash.
pub mod None
pub mod Fits
pub mod Inside
pub mod Overlap
pub mod Taken
pub mod Stays
pub mod Clear
pub mod Short
