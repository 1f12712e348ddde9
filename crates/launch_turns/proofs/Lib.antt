pub mod Deeds
pub mod Rests
pub mod Standing
pub mod Counted
