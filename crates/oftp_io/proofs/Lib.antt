pub mod Bytes
mod Sending
pub mod Puts
