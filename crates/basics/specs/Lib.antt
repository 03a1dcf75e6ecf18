pub mod Each
pub mod Word
