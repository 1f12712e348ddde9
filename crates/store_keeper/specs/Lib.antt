pub mod Alike
pub mod Keys
pub mod Loading
pub mod Parting
pub mod Depots
pub mod Sites
