-- Laws of the definitions in specs/.
pub mod Bools
pub mod Below
pub mod Tab
