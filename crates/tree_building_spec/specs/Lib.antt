-- The tree that is built for a table without a clash (document 02, 4).
pub mod Rule
pub mod Tree
