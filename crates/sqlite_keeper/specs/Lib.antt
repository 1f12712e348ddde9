pub mod Texts
pub mod Values
pub mod Asking
pub mod Making
pub mod Pinning
