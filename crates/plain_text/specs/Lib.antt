pub mod Parts
pub mod Words
pub mod Decimals
pub mod Hexadecimal
