pub mod NameLemmas
pub mod StandingLemmas
pub mod Sums
pub mod Orders
pub mod Named
