pub mod Asked
pub mod Pours
