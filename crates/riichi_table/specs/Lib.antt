pub mod Players
pub mod Tables
pub mod RulesFaults
pub mod States
pub mod Worths
