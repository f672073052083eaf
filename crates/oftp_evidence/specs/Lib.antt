pub mod Answers
pub mod Facts
pub mod Findings
pub mod Folders
pub mod Laws
pub mod Parts
pub mod Scripts
pub mod Sides
