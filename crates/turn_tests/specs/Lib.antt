pub mod Works
pub mod Rounds
pub mod Draws
