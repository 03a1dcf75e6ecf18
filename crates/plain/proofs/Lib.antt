pub mod Stretch
pub mod Parts
pub mod PlainLaws
pub mod Bits
pub mod Straight
pub mod Glyphs
