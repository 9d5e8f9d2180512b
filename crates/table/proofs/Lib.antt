pub mod Walks
pub mod Spots
pub mod Puts
pub mod Emptied
