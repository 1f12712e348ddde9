pub mod Orders
pub mod Answers
pub mod Reading
pub mod Steps
pub mod Spelling
