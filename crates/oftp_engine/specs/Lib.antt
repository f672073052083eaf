-- What the contracts of the public calls say: all that a reader has to believe.
pub mod Runs
pub mod Serving
pub mod Served
pub mod Progress
pub mod Conversation
pub mod Openings
pub mod Frames
pub mod Resources
pub mod Operating
pub mod Operated
pub mod Ranges
pub mod Queues
pub mod Jobs
pub mod Parts
pub mod World
pub mod Events
pub mod TwoStations
pub mod Promise
pub mod Fetched
-- What the contracts of private functions say beside. No public contract cites it.
pub mod InsideServing
pub mod InsideSubmitting
pub mod InsideOperating
pub mod InsideRunning
pub mod InsideContent
