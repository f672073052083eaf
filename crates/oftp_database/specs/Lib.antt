pub mod Attempts
pub mod GoingOn
pub mod Openings
pub mod Seen
