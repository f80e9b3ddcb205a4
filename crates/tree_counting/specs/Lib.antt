-- The paths of the rule's tree one after the other.
pub mod Counting
pub mod Turning
pub mod Seen
