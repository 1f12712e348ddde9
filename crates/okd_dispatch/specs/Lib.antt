pub mod Seen
pub mod Tied
