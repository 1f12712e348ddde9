pub mod Next
pub mod Filling
pub mod Sending
