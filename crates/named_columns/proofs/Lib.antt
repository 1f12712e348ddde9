pub mod Adds
pub mod Keeps
pub mod Narrow
pub mod Asked
pub mod Stays
pub mod Turning
