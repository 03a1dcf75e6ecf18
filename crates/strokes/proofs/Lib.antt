pub mod WalkLaws
pub mod WalkDraw
pub mod MixedLaws
pub mod PartLaws
