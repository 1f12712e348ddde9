pub mod Launches
pub mod Proxies
pub mod Site
