pub mod PairLemmas
pub mod SessionLemmas
