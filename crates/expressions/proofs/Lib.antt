-- Laws of expressions: the record, what it names, what a step makes, and the evaluation.
pub mod Records
pub mod Names
pub mod Making
pub mod Running
pub mod Values
pub mod Trees
pub mod Bytes
