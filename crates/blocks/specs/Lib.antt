pub mod Asked
pub mod Blocks
