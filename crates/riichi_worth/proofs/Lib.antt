pub mod DiscardLemmas
pub mod NumberLemmas
pub mod PlacedLemmas
pub mod PointLaws
pub mod PrizeLemmas
