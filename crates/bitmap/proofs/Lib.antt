pub mod ByteLaws
pub mod BitLaws
pub mod Turns
