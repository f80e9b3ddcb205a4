-- Whether bytes are a description that the entry points work with.
pub mod Acceptance
