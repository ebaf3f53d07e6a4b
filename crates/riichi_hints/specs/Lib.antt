pub mod Hint
pub mod Near
pub mod Crowd
pub mod Numbers
pub mod Account
pub mod Plain
