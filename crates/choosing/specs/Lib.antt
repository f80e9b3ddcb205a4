-- Choosing in a table of a description, and what the scan knows on its way.
pub mod Scan
pub mod Patterns
