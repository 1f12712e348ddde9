pub mod Counted
pub mod Ran
pub mod Joinings
pub mod Unstable
mod Hits
