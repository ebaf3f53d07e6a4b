pub mod AfterLemmas
pub mod CallLemmas
pub mod DeeperLemmas
pub mod DrawnLemmas
pub mod GainLemmas
pub mod NearerLemmas
