pub mod Days
pub mod Digests
pub mod Ends
pub mod Passwords
