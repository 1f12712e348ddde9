pub mod Seen
pub mod Permit
pub mod Tied
pub mod Example
