pub mod Heard
pub mod News
pub mod Totals
pub mod Begins
pub mod Currents
pub mod Changes
