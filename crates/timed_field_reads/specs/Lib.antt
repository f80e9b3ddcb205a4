-- A field read alone.
pub mod Read
