pub mod Seen
pub mod Kept
pub mod Readers
pub mod Tied
