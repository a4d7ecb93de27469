pub mod Judged
pub mod Receipts
pub mod Loaded
pub mod Looked
