-- The one claim about document 01's worked cases.
pub mod Table
