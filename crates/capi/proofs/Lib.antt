pub mod Changes
pub mod Writes
pub mod ReadOpen
pub mod Views
pub mod One
pub mod Runs
pub mod Packets
