pub mod Indexed
pub mod Pinning
pub mod Pinned
pub mod Joining
