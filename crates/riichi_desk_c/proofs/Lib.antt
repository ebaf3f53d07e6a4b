pub mod RowLemmas
pub mod StudyLemmas
