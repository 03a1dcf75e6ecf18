pub mod Asked
pub mod Plain
