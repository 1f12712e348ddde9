pub mod Lawful
pub mod Untold
pub mod Selecting
pub mod Verdicts
