pub mod Deeds
pub mod Resting
pub mod Turns
pub mod Papers
pub mod Standing
pub mod Looking
