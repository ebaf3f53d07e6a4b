pub mod Agreeing
pub mod Ended
pub mod Halls
pub mod Laws
