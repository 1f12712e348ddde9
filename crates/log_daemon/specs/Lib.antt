pub mod Seen
pub mod Tied
pub mod Stopped
