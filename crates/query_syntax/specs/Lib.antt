pub mod RuleNumber
pub mod Tokens
pub mod Answers
pub mod Grammar
pub mod Spelling
pub mod Forms
pub mod ReadAgain
