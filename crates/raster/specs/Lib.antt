pub mod Rop
pub mod Masks
