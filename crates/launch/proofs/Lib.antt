pub mod Ran
pub mod Stages
