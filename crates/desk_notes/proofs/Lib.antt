pub mod OpeningLemmas
pub mod LookingLemmas
