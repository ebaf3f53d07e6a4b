pub mod MoveLemmas
pub mod PlayLemmas
pub mod ReadBack
