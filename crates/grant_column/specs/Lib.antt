pub mod Granted
pub mod Headed
