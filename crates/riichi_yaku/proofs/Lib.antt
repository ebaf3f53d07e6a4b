pub mod Sets
pub mod InOrder
pub mod Chains
pub mod Needs
