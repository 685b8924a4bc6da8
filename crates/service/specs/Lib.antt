pub mod Commands
pub mod Marks
pub mod Outcomes
pub mod Recorders
pub mod Bookings
