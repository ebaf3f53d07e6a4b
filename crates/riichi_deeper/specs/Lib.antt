pub mod Calls
pub mod CallLaws
pub mod Deeper
pub mod Drawn
