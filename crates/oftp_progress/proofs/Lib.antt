pub mod BeatLemmas
