pub mod Key
pub mod Range
