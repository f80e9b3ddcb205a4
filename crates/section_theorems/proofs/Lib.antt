-- What is proved of a section's records.
pub mod Search
