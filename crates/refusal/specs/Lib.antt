pub mod Grounds
pub mod Judging
pub mod Lines
