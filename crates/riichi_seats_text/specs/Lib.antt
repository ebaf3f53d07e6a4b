pub mod Names
pub mod Games
pub mod Notes
