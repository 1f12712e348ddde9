pub mod Found
pub mod Entries
pub mod Pins
pub mod Scanned
pub mod Sole
pub mod Keyed
