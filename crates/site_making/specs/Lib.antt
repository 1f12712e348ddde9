pub mod Keepers
pub mod Making
