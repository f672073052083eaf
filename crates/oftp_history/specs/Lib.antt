pub mod Details
pub mod Histories
pub mod Past
pub mod Proofs
pub mod Values
