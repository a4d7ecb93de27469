pub mod Spaces
pub mod Clears
pub mod Lays
pub mod Seen
