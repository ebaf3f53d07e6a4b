pub mod IndicatorLemmas
pub mod TellingLemmas
