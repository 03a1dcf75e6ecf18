pub mod RopTree
pub mod RopLaws
