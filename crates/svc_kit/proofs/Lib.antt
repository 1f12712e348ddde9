pub mod Kept
pub mod Escaping
pub mod PutParts
pub mod Keeping
