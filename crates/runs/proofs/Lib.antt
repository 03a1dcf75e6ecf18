pub mod Even
pub mod Runs
pub mod Alike
pub mod Along
pub mod Keeping
