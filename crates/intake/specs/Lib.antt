pub mod Intake
pub mod Promises
