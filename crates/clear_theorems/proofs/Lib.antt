-- Document 01's sentences about clear tables, for any bytes.
pub mod Facts
