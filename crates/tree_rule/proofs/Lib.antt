-- The rule is exact: a leaf that no record shows wrong is right for every input on its path, and a record that does gives an input.
pub mod Filled
pub mod Bytes
pub mod Rule
mod Meets
