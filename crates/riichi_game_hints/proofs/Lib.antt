pub mod LineLemmas
pub mod KeepLemmas
