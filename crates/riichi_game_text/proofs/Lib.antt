pub mod DigitLemmas
pub mod TextLemmas
pub mod ChangeLemmas
pub mod ListLemmas
pub mod LongLines
pub mod PrintableLines
