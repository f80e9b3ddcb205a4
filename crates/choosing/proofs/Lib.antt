-- Laws of the scan.
pub mod Keeping
pub mod Settling
pub mod Records
