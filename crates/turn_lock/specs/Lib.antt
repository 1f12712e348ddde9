pub mod Tickets
pub mod Seats
pub mod Rows
pub mod Board
pub mod BoardSeats
