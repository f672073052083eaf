mod BitLemmas
mod RotationLemmas
pub mod LaneLemmas
mod BlockLemmas
mod JoinLemmas
