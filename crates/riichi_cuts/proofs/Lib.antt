pub mod Completing
pub mod RankBits
pub mod Remainders
