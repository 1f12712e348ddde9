pub mod Joining
pub mod Resolving
pub mod Compiled
pub mod Canonical
pub mod Recompiled
