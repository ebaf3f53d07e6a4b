pub mod EndedLemmas
pub mod HallLemmas
pub mod TotalLemmas
pub mod GameSums
pub mod Orders
