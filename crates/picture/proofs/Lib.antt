pub mod PlayerLaws
pub mod Fits
pub mod Promises
