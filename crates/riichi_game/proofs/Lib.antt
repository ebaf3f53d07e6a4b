pub mod Accepted
pub mod Totals
pub mod Order
