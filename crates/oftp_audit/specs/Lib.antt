pub mod Evidence
pub mod Losses
pub mod Passing
