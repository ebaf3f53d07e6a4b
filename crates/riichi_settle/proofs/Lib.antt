pub mod Hundreds
pub mod Flows
pub mod Taken
pub mod Balance
pub mod Alone
pub mod Gains
