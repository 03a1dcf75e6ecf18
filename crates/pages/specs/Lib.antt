pub mod Pages
pub mod Asked
pub mod Extent
