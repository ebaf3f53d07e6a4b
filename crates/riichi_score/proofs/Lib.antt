pub mod Wins
pub mod HandBefore
pub mod LimitLemmas
pub mod DoraSums
pub mod Greatest
pub mod Uniqueness
pub mod FuSums
