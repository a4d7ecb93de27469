pub mod Afters
pub mod Transfers
pub mod Fields
