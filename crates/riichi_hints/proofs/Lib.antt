pub mod NearLemmas
pub mod Rooms
pub mod AccountLemmas
pub mod PlainLemmas
