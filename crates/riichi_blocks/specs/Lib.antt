pub mod Kinds
pub mod Held
pub mod HandBlocks
pub mod BlockKinds
pub mod Tally
pub mod Pairs
pub mod Waits
