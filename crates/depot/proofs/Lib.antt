pub mod Books
pub mod Spent
