pub mod PieceLemmas
pub mod CrewLemmas
pub mod RoundLemmas
