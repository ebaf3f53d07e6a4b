pub mod SafeLemmas
pub mod SafeSets
pub mod FuritenLemmas
