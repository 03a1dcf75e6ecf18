pub mod Corner
pub mod Spans
