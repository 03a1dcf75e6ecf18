pub mod Asked
pub mod Format
pub mod Step
