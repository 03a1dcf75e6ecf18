pub mod Asked
pub mod Fault
pub mod Table
