pub mod Signs
pub mod Meanings
pub mod Winners
pub mod Looking
