pub mod Cells
pub mod Played
pub mod Printed
pub mod Run
