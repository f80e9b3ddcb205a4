-- A description of six sections decodes as before.
pub mod Walks
pub mod Entries
