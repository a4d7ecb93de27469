pub mod Held
pub mod Owing
pub mod Answers
