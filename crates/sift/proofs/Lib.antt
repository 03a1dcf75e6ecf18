pub mod SiftLaws
pub mod Written
pub mod Painted
