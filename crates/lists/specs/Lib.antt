-- The definitions that every other crate's definitions are made of.
pub mod Below
pub mod Tab
