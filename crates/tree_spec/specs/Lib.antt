-- Decision trees (document 01, "Trees").
pub mod Nodes
pub mod Form
pub mod Reach
pub mod Verdicts
