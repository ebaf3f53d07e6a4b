pub mod MoveLines
pub mod ValueLines
pub mod EndReasons
pub mod FinalSums
pub mod Laws
