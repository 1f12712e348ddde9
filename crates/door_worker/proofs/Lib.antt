pub mod Refusals
pub mod Attending
