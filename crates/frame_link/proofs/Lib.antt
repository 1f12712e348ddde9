pub mod Nexts
pub mod Sends
