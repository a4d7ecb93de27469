pub mod Answers
pub mod Questions
pub mod Pages
pub mod Lines
