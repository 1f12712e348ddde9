pub mod Sat
pub mod Steps
pub mod Calls
pub mod Made
pub mod Closing
pub mod Heard
