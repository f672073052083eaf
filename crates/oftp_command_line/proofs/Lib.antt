pub mod CertainNumbers
pub mod CertainValues
pub mod CommandLines
mod LineExamples
pub mod SimpleCommands
pub mod TakenWords
pub mod Values
