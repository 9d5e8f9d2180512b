pub mod Tills
pub mod Views
pub mod Records
pub mod Accounts
pub mod Drafts
pub mod Sending
pub mod Laws
