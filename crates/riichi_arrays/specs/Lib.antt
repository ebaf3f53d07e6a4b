pub mod Hands
pub mod Columns
pub mod Further
