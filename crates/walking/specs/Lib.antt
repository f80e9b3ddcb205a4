-- What the walk's functions say of their answers and of the scratch rows.
pub mod Walks
