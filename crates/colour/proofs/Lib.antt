pub mod Tests
pub mod Table
pub mod Bits
pub mod ConvertLaws
