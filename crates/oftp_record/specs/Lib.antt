-- The definitions that contracts cite: an entry as octets, what stands at the beginning of octets, and records.
pub mod Entries
pub mod Pieces
pub mod Next
pub mod Streams
pub mod Ahead
pub mod Records
pub mod Changes
pub mod AppendFaults
pub mod Inside
