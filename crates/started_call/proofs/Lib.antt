pub mod Capped
pub mod Lengths
