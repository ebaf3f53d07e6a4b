pub mod Trees
pub mod Text
pub mod Parts
pub mod Whole
