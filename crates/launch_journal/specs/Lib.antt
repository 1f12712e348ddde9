pub mod Launches
pub mod Tallies
