pub mod WordCuts
