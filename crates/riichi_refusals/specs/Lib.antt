pub mod Faults
pub mod LineWords
pub mod Meaning
pub mod Shown
pub mod Refusal
