pub mod ListedLemmas
pub mod FaultLemmas
pub mod FindingLemmas
pub mod FoundLemmas
pub mod WorthLemmas
pub mod QuestionLemmas
pub mod PartLemmas
