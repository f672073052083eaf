pub mod Events
pub mod InsideMembers
pub mod Lines
