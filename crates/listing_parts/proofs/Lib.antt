-- Laws of a line's parts.
pub mod Appending
pub mod Gaps
mod Made
