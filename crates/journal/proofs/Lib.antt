pub mod Entries
pub mod Scans
pub mod Finds
pub mod Fronts
pub mod Writes
pub mod Puts
pub mod Statements
