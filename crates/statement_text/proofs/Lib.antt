pub mod Recompiles
pub mod SelectsAgain
pub mod Found
pub mod Sides
pub mod JoinReads
pub mod JoinsAgain
pub mod CompilesAgain
