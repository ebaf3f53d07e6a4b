pub mod Shares
pub mod Reading
pub mod Crew
