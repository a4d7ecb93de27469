pub mod Fills
pub mod Boards
pub mod Singles
pub mod Twins
