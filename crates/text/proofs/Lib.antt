-- Laws of the text.
pub mod Pieces
mod Writers
mod RowSteps
mod Parts
mod LentText
pub mod Trees
pub mod InstructionText
