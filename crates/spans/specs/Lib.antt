pub mod Asked
pub mod Span
