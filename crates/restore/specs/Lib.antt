pub mod Rectangles
pub mod Restore
