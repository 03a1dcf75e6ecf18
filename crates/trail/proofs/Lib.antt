pub mod Wets
pub mod Sieves
pub mod Boxes
