pub mod Launches
pub mod Lines
