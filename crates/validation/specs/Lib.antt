-- A section's judgement by itself.
pub mod Judgement
