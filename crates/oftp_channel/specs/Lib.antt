pub mod Requests
pub mod Endings
pub mod Answers
pub mod Inputs
pub mod Asked
pub mod Listed
pub mod InsideAsked
