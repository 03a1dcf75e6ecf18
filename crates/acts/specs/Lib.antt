pub mod Asked
pub mod Deed
pub mod Fed
pub mod Operation
