pub mod Value
pub mod Denial
pub mod Crash
pub mod Names
pub mod Kept
pub mod Past
pub mod Runs
pub mod Turns
