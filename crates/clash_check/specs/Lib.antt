-- The clash check of any bytes.
pub mod Entry
pub mod Partner
