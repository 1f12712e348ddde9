mod Decided
mod Declared
pub mod Exact
pub mod Lists
pub mod Paths
mod Plans
