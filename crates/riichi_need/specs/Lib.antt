pub mod Rows
pub mod Winning
pub mod Reaching
pub mod Needs
pub mod Laws
