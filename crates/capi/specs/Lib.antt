pub mod Calls
pub mod Asked
pub mod Packets
pub mod Promises
