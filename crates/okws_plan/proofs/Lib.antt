pub mod Rules
pub mod Fits
pub mod Ordered
pub mod Ranks
pub mod Laid
