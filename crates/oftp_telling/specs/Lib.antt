pub mod CommandKinds
pub mod Names
pub mod Fields
pub mod Shown
pub mod Lines
pub mod Telling
pub mod Counting
