pub mod Requests
pub mod Listing
pub mod Frames
pub mod Book
pub mod Guest
