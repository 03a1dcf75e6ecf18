pub mod Asked
pub mod Bits
