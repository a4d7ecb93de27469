pub mod Charges
pub mod Questions
pub mod Accounts
pub mod Bills
