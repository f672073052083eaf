mod Walks
mod Lives
mod Boxes
mod Openings
pub mod LifeParts
mod LifeEvents
