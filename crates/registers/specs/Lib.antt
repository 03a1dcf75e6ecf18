pub mod Regs
pub mod Kept
pub mod Offsets
