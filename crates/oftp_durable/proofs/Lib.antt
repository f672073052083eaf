mod Counts
mod Leaving
mod LifeCounts
pub mod LifeTables
mod Limits
mod Lists
mod Passing
