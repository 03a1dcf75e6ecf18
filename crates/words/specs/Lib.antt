pub mod Words
pub mod Promises
pub mod Turn
