pub mod Sources
pub mod Rows
pub mod Verdicts
pub mod Stretches
pub mod Once
