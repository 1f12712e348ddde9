pub mod Living
pub mod Laws
pub mod Orders
pub mod Serving
