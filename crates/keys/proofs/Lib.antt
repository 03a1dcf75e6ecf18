pub mod KeyLaws
pub mod RangeLaws
