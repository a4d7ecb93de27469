pub mod Banks
pub mod Stacks
pub mod Processors
pub mod Tests
pub mod Lending
pub mod Words
