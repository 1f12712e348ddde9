pub mod Narrow
pub mod Rows
pub mod Short
pub mod Sites
pub mod Ways
