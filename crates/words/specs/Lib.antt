pub mod Kinds
pub mod Splits
pub mod Numbers
