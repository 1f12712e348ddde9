pub mod RuleNumber
pub mod Answers
pub mod Above
pub mod Broken
pub mod After
pub mod Meaning
pub mod Ruled
pub mod Kept
