pub mod QuietWords
mod TextLemmas
