pub mod StraightLaws
