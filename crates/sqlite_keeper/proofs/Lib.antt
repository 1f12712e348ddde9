pub mod Alone
pub mod Inside
pub mod Joined
pub mod Sided
pub mod Labels
pub mod May
pub mod Refused
pub mod Turns
