pub mod Asked
pub mod Tally
pub mod Paint
pub mod Mix
pub mod Clip
