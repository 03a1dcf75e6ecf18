pub mod Asked
pub mod Walk
pub mod Mixed
pub mod Phase
