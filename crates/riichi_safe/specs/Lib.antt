pub mod SafeParts
pub mod Records
pub mod Safe
pub mod SafeLaws
