pub mod Numbers
pub mod Spilt
pub mod Turns
