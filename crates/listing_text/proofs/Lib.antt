-- Laws of the listing.
pub mod Moving
pub mod Joined
mod Going
mod Turns
mod Splitting
mod Faults
