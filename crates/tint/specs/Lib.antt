pub mod Asked
pub mod Tint
pub mod Masking
