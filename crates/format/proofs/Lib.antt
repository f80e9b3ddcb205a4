-- Laws of the definitions in specs/, for this crate and those above it.
pub mod Lists
pub mod Places
pub mod Product
pub mod Formation
pub mod Tables
pub mod Example
