-- What document 02 says of building trees, as theorems about the definitions.
pub mod Built
