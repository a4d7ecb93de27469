pub mod Cases
pub mod Samples
