pub mod Adds
pub mod Rounds
pub mod Draws
pub mod Frees
