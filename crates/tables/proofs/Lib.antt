-- Laws of a table's range and of the first constructors as a list, for the layers above.
pub mod Range
pub mod FirstConstructors
mod Filling
