pub mod Jobs
pub mod Calls
pub mod Acts
pub mod Worlds
pub mod Words
