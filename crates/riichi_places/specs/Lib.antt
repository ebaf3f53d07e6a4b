pub mod Places
pub mod Bonuses
pub mod Finals
pub mod Laws
