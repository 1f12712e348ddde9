pub mod Launched
pub mod Counts
pub mod Held
pub mod Kept
pub mod Asked
pub mod Turns
pub mod Calls
