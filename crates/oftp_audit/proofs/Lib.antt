pub mod EvidenceLemmas
pub mod LossLemmas
pub mod StandingLemmas
pub mod PassingLemmas
