pub mod Access
pub mod Changes
pub mod Exactness
pub mod Sameness
