pub mod WinRows
pub mod ScoreRows
pub mod Wins
