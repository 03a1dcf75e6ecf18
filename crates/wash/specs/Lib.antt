pub mod Asked
pub mod Wash
pub mod Count
