-- Laws of the check.
pub mod Text
pub mod Judgement
pub mod Laid
