pub mod Positions
pub mod Opened
pub mod Texts
pub mod Rows
