pub mod Asked
pub mod Scale
pub mod Stretch
