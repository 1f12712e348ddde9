pub mod Asking
pub mod Lives
pub mod Launching
pub mod Handling
pub mod Steering
pub mod Rounds
pub mod Commands
