pub mod Laws
pub mod Places
pub mod Sessions
pub mod Standings
pub mod Tallies
pub mod Tournaments
