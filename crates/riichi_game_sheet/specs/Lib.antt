pub mod Cells
pub mod Rows
pub mod Begun
pub mod Deals
pub mod Ends
pub mod Laws
