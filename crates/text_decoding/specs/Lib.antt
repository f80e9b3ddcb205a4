-- Decoding one instruction of any bytes to text.
pub mod TextDecoding
