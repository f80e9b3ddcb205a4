-- Laws of fields, values and looks.
pub mod Values
pub mod Tokens
pub mod Signs
