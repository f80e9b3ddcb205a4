-- Where every table of a description starts.
pub mod Starts
