pub mod Trail
pub mod Asked
