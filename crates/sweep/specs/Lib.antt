pub mod Asked
pub mod Copy
pub mod Row
