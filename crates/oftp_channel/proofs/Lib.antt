mod InputLemmas
mod SentLemmas
mod SpellingLemmas
mod RequestLemmas
mod EndingLemmas
mod PartLemmas
mod LackingLemmas
mod AskedLemmas
