pub mod Asked
pub mod Place
pub mod Pixels
