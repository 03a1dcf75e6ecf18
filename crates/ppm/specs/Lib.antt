pub mod Asked
pub mod Text
pub mod Picture
pub mod Says
