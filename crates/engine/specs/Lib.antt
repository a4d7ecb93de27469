pub mod Answers
pub mod Judges
pub mod Receipts
