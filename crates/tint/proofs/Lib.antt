pub mod MaskLaws
pub mod ByteLaws
pub mod RowLaws
pub mod TellLaws
pub mod FillLaws
