pub mod ProspectLemmas
pub mod ChoiceLemmas
pub mod SafeTextLemmas
pub mod NamedRuleLemmas
pub mod WorthRecordLemmas
