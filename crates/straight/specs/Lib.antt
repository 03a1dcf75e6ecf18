pub mod Asked
pub mod Straight
