pub mod SkipLaws
pub mod NextLaws
pub mod RestLaws
pub mod CallLaws
pub mod Holding
pub mod Room
pub mod Promises
