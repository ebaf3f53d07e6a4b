pub mod FaultLemmas
pub mod PutLemmas
pub mod HintLemmas
