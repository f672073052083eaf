-- The definitions that contracts cite: the lanes of eight messages.
pub mod Lanes
