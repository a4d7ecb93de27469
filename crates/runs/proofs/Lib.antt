pub mod Turning
pub mod Lawful
pub mod Kept
