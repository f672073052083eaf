pub mod Halting
pub mod Replays
