-- Laws of the walk.
pub mod Answers
pub mod Turns
pub mod Readiness
pub mod Places
