-- Laws of the instruction at a place.
pub mod Alike
pub mod Owners
pub mod Gathering
pub mod Evaluating
pub mod SettledTree
pub mod InstructionRows
pub mod Readable
pub mod Ending
