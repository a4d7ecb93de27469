pub mod Judgements
pub mod Searches
