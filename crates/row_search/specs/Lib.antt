pub mod Places
pub mod Hits
