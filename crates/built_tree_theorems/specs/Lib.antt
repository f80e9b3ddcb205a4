-- What the theorems about built trees say.
pub mod Facts
