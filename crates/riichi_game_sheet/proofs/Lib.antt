pub mod Fronts
pub mod Spaces
pub mod Widths
