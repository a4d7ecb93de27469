pub mod Asides
pub mod Lawful
pub mod Invariant
pub mod Alone
pub mod Confining
pub mod Witness
pub mod Whole
