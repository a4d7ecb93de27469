pub mod Owing
pub mod Keeping
