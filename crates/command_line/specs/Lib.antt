pub mod Numbers
pub mod Parts
pub mod Looks
pub mod Meant
pub mod Plain
pub mod Asked
pub mod Usage
