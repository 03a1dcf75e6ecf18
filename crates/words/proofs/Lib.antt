pub mod Laws
pub mod Numbers
pub mod Feeds
pub mod Promises
pub mod Once
