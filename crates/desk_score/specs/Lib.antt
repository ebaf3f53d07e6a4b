pub mod Faults
pub mod Heads
pub mod Score
pub mod Shown
pub mod Tables
