pub mod Calls
pub mod Journal
pub mod BytesIn
pub mod BytesOut
pub mod Reached
