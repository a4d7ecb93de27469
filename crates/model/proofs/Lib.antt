pub mod Settling
pub mod Seats
pub mod Landings
pub mod Tables
pub mod Answers
