pub mod Samples
pub mod Blit
