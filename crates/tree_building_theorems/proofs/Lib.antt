-- Laws of the tree that is built.
pub mod Numbered
pub mod Deciding
pub mod Growth
pub mod Laid
pub mod Accepted
