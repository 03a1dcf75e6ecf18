pub mod Asked
pub mod Fast
