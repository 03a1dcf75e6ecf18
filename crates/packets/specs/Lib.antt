pub mod Header
pub mod Reader
pub mod Delivery
pub mod Answers
pub mod Promises
