-- The definitions that contracts cite: the standard's terms for fields, reasons, and the texts that an operator reads.
pub mod Octets
pub mod Reasons
pub mod Messages
