pub mod Laying
pub mod Blocks
pub mod Pixels
pub mod Others
pub mod Even
pub mod EvenRows
