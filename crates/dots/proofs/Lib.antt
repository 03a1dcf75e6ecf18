pub mod Parts
pub mod DotLaws
pub mod BoxLaws
