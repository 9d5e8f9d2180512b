pub mod Answers
pub mod Grammar
pub mod Steps
