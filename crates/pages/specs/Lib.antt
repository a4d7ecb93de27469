pub mod Held
pub mod Loads
pub mod Entries
pub mod Looks
