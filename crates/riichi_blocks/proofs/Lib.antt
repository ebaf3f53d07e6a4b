pub mod Additions
pub mod Tally
pub mod KindWords
pub mod EqualRuns
