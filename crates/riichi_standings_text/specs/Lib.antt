pub mod Cells
pub mod Columns
pub mod Objects
pub mod Sheets
pub mod Texts
