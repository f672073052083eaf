-- The definitions that contracts cite: the standard's terms for the octets of commands, and for the stream that carries them.
pub mod Form
pub mod Reading
pub mod Kinds
pub mod Row
pub mod Tables
pub mod Spelling
pub mod Piece
pub mod Header
pub mod Stream
pub mod FrameFaults
