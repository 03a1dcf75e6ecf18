pub mod Asked
pub mod Pattern
