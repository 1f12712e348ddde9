pub mod Leading
pub mod Going
pub mod Laws
pub mod Talking
pub mod Listing
pub mod Beginning
pub mod Waiting
pub mod Ending
