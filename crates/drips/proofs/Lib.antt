pub mod Drops
pub mod Marks
pub mod Reach
pub mod RowLaws
pub mod Falls
pub mod Boxes
