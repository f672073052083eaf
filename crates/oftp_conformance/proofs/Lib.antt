pub mod HearingLemmas
pub mod Zeros
