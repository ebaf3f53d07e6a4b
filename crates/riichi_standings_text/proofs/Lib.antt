pub mod ColumnLemmas
pub mod SheetLemmas
