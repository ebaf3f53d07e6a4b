pub mod Counts
pub mod Order
pub mod Parts
pub mod Given
pub mod Ended
pub mod Level
pub mod Falling
pub mod Accepted
