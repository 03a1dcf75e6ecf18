pub mod Blend
pub mod Spreading
pub mod Pieces
pub mod Sums
pub mod Tables
pub mod Counting
pub mod Settling
