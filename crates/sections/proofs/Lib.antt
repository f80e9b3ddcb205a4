-- Laws of the records in a section.
pub mod Records
