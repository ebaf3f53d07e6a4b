pub mod Texts
pub mod PairingLemmas
