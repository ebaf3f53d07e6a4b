pub mod Strings
pub mod States
pub mod MoveValues
pub mod Deals
pub mod Refusals
pub mod Begun
pub mod Finals
