-- Laws of decoding one instruction.
pub mod Records
pub mod Taken
pub mod Stays
pub mod Relation
pub mod Instructions
pub mod Rows
pub mod InBounds
pub mod Shapes
pub mod Refusals
pub mod Choices
pub mod Deep
pub mod Entries
