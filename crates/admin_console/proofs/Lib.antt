pub mod Taking
pub mod Lines
pub mod Stepping
pub mod Spelled
