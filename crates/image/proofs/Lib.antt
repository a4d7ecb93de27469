pub mod Header
pub mod Walks
pub mod Judged
pub mod Cut
