-- What the theorems about a built tree use.
pub mod Numbered
pub mod Decides
pub mod Growth
pub mod Stands
pub mod Plain
