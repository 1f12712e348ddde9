pub mod Taken
pub mod Held
pub mod Row
pub mod Turns
pub mod Making
pub mod Closing
pub mod Notes
