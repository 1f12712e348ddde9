pub mod Length
pub mod Response
pub mod Status
pub mod Target
pub mod Reading
