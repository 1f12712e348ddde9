pub mod Sayable
pub mod Guesting
