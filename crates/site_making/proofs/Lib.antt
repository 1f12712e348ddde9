pub mod Lists
pub mod Turned
pub mod Backing
