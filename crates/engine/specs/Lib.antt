pub mod Step
pub mod Orders
pub mod Writes
pub mod Promises
pub mod Reasons
