pub mod Taken
pub mod Straight
pub mod Order
pub mod Mixed
