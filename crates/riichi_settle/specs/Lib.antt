pub mod Moves
pub mod Winners
pub mod Prices
pub mod Wins
pub mod Draws
pub mod Settled
pub mod Totals
pub mod Laws
