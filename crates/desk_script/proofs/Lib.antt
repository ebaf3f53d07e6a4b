pub mod Continued
pub mod Scripts
pub mod Only
pub mod NameLemmas
pub mod SeqLemmas
pub mod OpenedTables
