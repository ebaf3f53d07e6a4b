pub mod Rows
pub mod Trees
pub mod Parts
pub mod Reasons
