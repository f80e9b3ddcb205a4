-- Laws of the paths and of counting.
pub mod Turning
pub mod Paths
pub mod Counting
