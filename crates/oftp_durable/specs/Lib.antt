pub mod Counts
pub mod Databases
pub mod Headline
pub mod LifeTables
pub mod Lists
pub mod Reopening
