pub mod Plain
pub mod Reads
pub mod Idle
pub mod Made
pub mod Undone
pub mod Short
pub mod Missed
pub mod Wrong
