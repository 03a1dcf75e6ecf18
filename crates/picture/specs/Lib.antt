pub mod Player
pub mod Promises
