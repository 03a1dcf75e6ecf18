pub mod Sift
pub mod Asked
