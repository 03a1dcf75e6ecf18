pub mod Dots
pub mod Asked
