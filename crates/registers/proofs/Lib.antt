pub mod Arms
pub mod OffsetLaws
pub mod RegsLaws
pub mod KeptLaws
