mod Examples
pub mod LineLemmas
pub mod PlainLemmas
