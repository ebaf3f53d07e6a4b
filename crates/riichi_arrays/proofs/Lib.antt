pub mod ColumnLemmas
pub mod DiscardLemmas
pub mod KindLemmas
