pub mod Asked
pub mod Line
pub mod Tread
pub mod Stipple
pub mod Draw
