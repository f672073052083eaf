pub mod TailLemmas
