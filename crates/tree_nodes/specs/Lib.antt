-- What the rule's node is computed from.
pub mod Ready
pub mod Gathering
