mod Cuts
mod HaltingLemmas
mod Replays
