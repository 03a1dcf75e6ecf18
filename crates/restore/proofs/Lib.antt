pub mod Areas
pub mod Waits
pub mod Frames
pub mod Copies
pub mod CopyWrites
pub mod Back
pub mod Restores
pub mod Sample
