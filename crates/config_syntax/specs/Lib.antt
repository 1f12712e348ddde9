pub mod ByteSets
pub mod Columns
pub mod Declarations
pub mod Literals
pub mod Words
