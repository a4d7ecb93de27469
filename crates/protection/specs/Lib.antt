pub mod Histories
pub mod Protection
