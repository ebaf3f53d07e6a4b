pub mod NumberedLemmas
pub mod ScoreLemmas
