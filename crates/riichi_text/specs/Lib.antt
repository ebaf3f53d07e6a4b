pub mod Lists
pub mod Tiles
