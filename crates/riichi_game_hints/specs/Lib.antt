pub use Rattle.riichi_game_drafts.specs.Nearest
pub mod Lines
pub mod Keeping
pub mod Reasons
pub mod Hints
pub mod Begins
pub mod Trials
