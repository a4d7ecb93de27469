pub mod Memories
pub mod Numbers
