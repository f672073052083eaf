mod HeaderLemmas
mod NextLemmas
mod StoredLemmas
mod ReadLemmas
mod CutLemmas
mod ChangeLemmas
pub mod PieceLemmas
mod PassedLemmas
