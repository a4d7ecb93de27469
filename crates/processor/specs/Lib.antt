pub mod Fetches
pub mod Effects
pub mod Steps
