pub mod Asked
pub mod Drips
pub mod Rows
