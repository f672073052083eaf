-- The definitions that contracts cite: the fields of a content as octets, and the codes.
pub mod Fields
pub mod Passwords
pub mod Pieces
pub mod Places
pub mod Programs
pub mod Links
pub mod Marks
pub mod Registers
pub mod Handling
pub mod Days
pub mod Playing
pub mod Standings
pub mod Codes
pub mod Escapes
pub mod Books
pub mod Hiding
