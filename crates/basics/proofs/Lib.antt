pub mod EachLaws
pub mod One
pub mod WordLaws
